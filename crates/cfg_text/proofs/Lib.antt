pub mod Facts
mod Numbers
mod Rising
