pub mod RoundRobin
pub mod Onward
