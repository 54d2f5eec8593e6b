mod Parsing
mod Numbers
