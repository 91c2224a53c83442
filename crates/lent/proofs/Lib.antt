pub mod BringsLaws
