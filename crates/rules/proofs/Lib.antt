mod RuleOrder
mod NameSearch
mod BothNames
mod PartTests
