mod Action
mod Weighing
