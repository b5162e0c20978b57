pub mod Recipes
pub mod Sheets
pub mod Evaluations
