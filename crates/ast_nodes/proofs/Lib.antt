pub mod Chains
pub mod Depths
pub mod ExampleTexts
pub mod ExprFolds
pub mod StmtFolds
pub mod StmtTexts
pub mod Texts
pub mod Pieces
