-- The samples of windows-1252 that are proved (Rules 14.11 to 14.16): one table, one claim. What is said is read off the
-- published table by hand.
-- Assumes nothing.
use Rattle.std.specs.Prelude.{◌≡◌, refl, List, [], ◌∷◌, map, ℕ}
use Rattle.windows_1252_table.specs.Table.{table, unit_of, place, byte_of}
use Rattle.windows_1252_table.specs.Utf16.{unit_bytes, units_in, to_utf16, all_in_table, utf16_refusal, from_utf16}

-- a sample: what the definitions answer, and what section 14 says
pub record Sample : Type 0 where
  pub got : List ℕ
  pub said : List ℕ

-- the refusal of UTF-16, and what it is in windows-1252
unfoldable pub back : List ℕ → List ℕ
back s = utf16_refusal s ∷ from_utf16 s

pub sample_table : List Sample
sample_table =
    record { got = to_utf16 []; said = [] }
    ∷ record { got = to_utf16 (0x41 ∷ 0xE9 ∷ 0xFF ∷ []); said = 0x41 ∷ 0 ∷ 0xE9 ∷ 0 ∷ 0xFF ∷ 0 ∷ [] }
    ∷ record { got = to_utf16 (0x80 ∷ 0x8E ∷ 0x9F ∷ []); said = 0xAC ∷ 0x20 ∷ 0x7D ∷ 0x01 ∷ 0x78 ∷ 0x01 ∷ [] }
    ∷ record {
      got = to_utf16 (0x81 ∷ 0x8D ∷ 0x8F ∷ 0x90 ∷ 0x9D ∷ []);
      said = 0x81 ∷ 0 ∷ 0x8D ∷ 0 ∷ 0x8F ∷ 0 ∷ 0x90 ∷ 0 ∷ 0x9D ∷ 0 ∷ [];
    }
    ∷ record { got = back (0xAC ∷ 0x20 ∷ 0x22 ∷ 0x21 ∷ 0x7F ∷ 0 ∷ 0x90 ∷ 0 ∷ []); said = 0 ∷ 0x80 ∷ 0x99 ∷ 0x7F ∷ 0x90 ∷ [] }
    ∷ record {
      got = map utf16_refusal ((0x80 ∷ 0 ∷ []) ∷ (0x9F ∷ 0 ∷ []) ∷ (0 ∷ 1 ∷ []) ∷ (0xFF ∷ 0xFF ∷ []) ∷ (0x41 ∷ []) ∷ (0x41 ∷ 0 ∷ 0x42 ∷ []) ∷ [] ∷ []);
      said = 18 ∷ 18 ∷ 18 ∷ 18 ∷ 18 ∷ 18 ∷ 0 ∷ [];
    }
    ∷ []

unfoldable pub got : Sample → List ℕ
got a = a.got

unfoldable pub said : Sample → List ℕ
said a = a.said

-- Rule 12.10: every sample comes out as section 14 says
pub samples : map got sample_table ≡ map said sample_table
unfolding sample_table got said back table unit_of place byte_of unit_bytes units_in to_utf16 all_in_table utf16_refusal from_utf16
samples = refl
