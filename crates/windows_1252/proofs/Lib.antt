mod Finding
mod Putting
mod Refusing
