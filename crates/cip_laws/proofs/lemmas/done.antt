pub mod Alike
pub mod Completing
pub mod Dividing
pub mod Repeating
pub mod RunsAgain
pub mod StreamsAgain
