-- The samples of the memory card that are proved (Rules 13.16 to 13.20): one table, one claim. What is said
-- is worked out by hand: the sums of each block stand beside it.
-- Assumes nothing.
use Rattle.std.specs.Prelude.{◌≡◌, refl, true, List, [], ◌∷◌, ◌++◌, map, ℕ, replicate}
use Rattle.format.specs.Bytes.{zeros}
use Rattle.format.proofs.Laws.Tests.{same, sames, sames_lists}
use Rattle.card.specs.Check.{sum_below, low_sum, high_sum}
use Rattle.card.specs.Block.{checked_bytes, checked, block}
use Rattle.card.specs.Image.{block_count, below, last_mark, block_of, image}
use Rattle.card.specs.Judging.{check_test, used_test, all_zero, guard, judged, image_test, block_refusal, first_refusal, image_refusal, log_in}

-- a sample: what the definitions answer, and what section 13 says
pub record Sample : Type 0 where
  pub got : List ℕ
  pub said : List ℕ

-- Rule 13.16: the empty log: low 1 (the mark at 506); high 1 * 2
unfoldable pub empty_card : List ℕ
empty_card = zeros 506 ++ (1 ∷ 0 ∷ 1 ∷ 0 ∷ 2 ∷ 0 ∷ [])

-- Rule 13.17: the log "A": low 1 + 65 + 1 = 67; high 1 * 504 + 65 * 502 + 1 * 2 = 33,136 = 0x8170
unfoldable pub short_card : List ℕ
short_card = zeros 4 ++ (1 ∷ 0 ∷ 65 ∷ []) ++ zeros 499 ++ (1 ∷ 0 ∷ 67 ∷ 0 ∷ 0x70 ∷ 0x81 ∷ [])

-- Rule 13.18: 500 bytes of 255: low 244 + 1 + 255 * 500 + 1 = 127,746, modulo 65,521 it is 62,225 = 0xF311;
-- high 244 * 504 + 1 * 503 + 255 * 126,250 + 1 * 2 = 32,317,231, modulo 65,521 it is 15,378 = 0x3C12
unfoldable pub full_card : List ℕ
full_card = zeros 4 ++ (244 ∷ 1 ∷ []) ++ replicate 500 255 ++ (1 ∷ 0 ∷ 0x11 ∷ 0xF3 ∷ 0x12 ∷ 0x3C ∷ [])

pub table : List Sample
table =
    record { got = image []; said = empty_card }
    ∷ record { got = image (65 ∷ []); said = short_card }
    ∷ record { got = image (replicate 500 255); said = full_card }
    ∷ record { got = image_refusal empty_card ∷ log_in empty_card; said = 0 ∷ [] }
    ∷ record { got = image_refusal short_card ∷ log_in short_card; said = 0 ∷ 65 ∷ [] }
    ∷ record { got = block_refusal short_card 1 ∷ image_refusal [] ∷ []; said = 20 ∷ 20 ∷ [] }
    ∷ record {
      got = map block_count (0 ∷ 1 ∷ 499 ∷ 500 ∷ 501 ∷ 1000 ∷ 16777500 ∷ 16777501 ∷ []);
      said = 1 ∷ 1 ∷ 1 ∷ 1 ∷ 2 ∷ 2 ∷ 33555 ∷ 33556 ∷ [];
    }
    ∷ []

unfoldable pub got : Sample → List ℕ
got a = a.got

unfoldable pub said : Sample → List ℕ
said a = a.said

tested : sames (map got table) (map said table) ≡ true
unfolding table got said same sames empty_card short_card full_card sum_below low_sum high_sum checked_bytes checked block block_count below last_mark block_of image check_test used_test all_zero guard judged image_test block_refusal first_refusal image_refusal log_in
tested = refl

-- Rule 12.10: every sample comes out as section 13 says
pub samples : map got table ≡ map said table
samples = sames_lists (map got table) (map said table) tested
