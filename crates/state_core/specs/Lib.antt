pub mod Stateful
