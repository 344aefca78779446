pub mod TaintingView
