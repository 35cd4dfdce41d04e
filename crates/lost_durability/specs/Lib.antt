pub mod Survival
