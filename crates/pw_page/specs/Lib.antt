-- The files of the page.
pub mod Files
