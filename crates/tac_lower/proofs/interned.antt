pub mod Interns
pub mod InternedLists
pub mod KeyLaws
pub mod WholeCode
pub mod DraftLaws
pub mod FewShapes
