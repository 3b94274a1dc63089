mod Takes
mod Whole
