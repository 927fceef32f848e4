-- What the contracts cite: what the next record does (`Met`), and numbers counted up (`Rising`).
pub mod Met
pub mod Rising
