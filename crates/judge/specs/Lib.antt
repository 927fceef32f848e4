-- What the contracts cite: what tests 1 to 3 say.
pub mod Judgement
