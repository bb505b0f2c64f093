mod Chain
mod Whole
