-- Nothing rests on these but examples. They stand in a crate of their own so that a check of `guard` need not compute them.
pub mod Morning
pub mod DeepTies
