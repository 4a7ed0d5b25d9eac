mod Shown
mod Steps
