pub mod FrontPage
mod Kept
pub mod Base
pub mod Card
pub mod Rack
pub mod Board
