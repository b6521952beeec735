-- SPECIFICATION 10.13, 10.14 and 14: the queue of six heads. `Inner` is for inner functions: nobody has to believe it.
pub mod Queue
pub mod Promise
pub mod Inner
