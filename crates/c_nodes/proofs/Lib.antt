pub mod ExprInduction
pub mod GrammarShapes
pub mod ShownShapes
pub mod StmtInduction
pub mod Texts
