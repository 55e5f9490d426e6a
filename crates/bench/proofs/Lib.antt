mod Listing
mod Running
