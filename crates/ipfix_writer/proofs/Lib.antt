pub mod DraftLaws
pub mod GrammarLaws
