mod Buffers
mod Numbers
mod Placed
