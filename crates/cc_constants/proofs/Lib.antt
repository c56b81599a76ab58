pub mod RightOperands
