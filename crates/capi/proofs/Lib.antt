mod Kept
mod JobKept
mod ReadBack
mod JobBack
mod LevelBack
