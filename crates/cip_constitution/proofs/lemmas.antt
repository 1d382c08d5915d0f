pub mod anew
pub mod closed
pub mod cut
pub mod followed
pub mod seen
pub mod settled
pub mod node_data
