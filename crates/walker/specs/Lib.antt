-- What the contracts cite: where a walker starts, and how it steps.
pub mod Walkers
