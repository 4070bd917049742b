mod Best
mod Judged
mod Released
mod Pairs
