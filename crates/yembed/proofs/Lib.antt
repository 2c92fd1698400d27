mod Exact
mod OneParser
