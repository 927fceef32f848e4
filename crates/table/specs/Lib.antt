-- What the contracts of inner functions cite: the rows one by one (`Rows`), and the shape of a table (`Shape`).
pub mod Rows
pub mod Shape
