mod State
mod Standing
mod States
