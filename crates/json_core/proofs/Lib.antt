pub mod ArrayLaws
mod PushLaws
