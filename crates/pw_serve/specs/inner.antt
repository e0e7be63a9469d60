-- Peers: how a connection stands in the loop
pub mod Peers
-- Turns: what a step and a turn do
pub mod Turns
-- Now: how all connections stand
pub mod Now
