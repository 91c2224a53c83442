-- One frame: what refuses it, its plan, its verdict, and the row afterwards.
pub mod Refusal
pub mod Judge
pub mod SaidLaws
pub mod Admitted
pub mod Laws
pub mod Cases
