pub mod LoneParameters
