pub mod HeldBlocks
pub mod Standing
pub mod HoldTurns
pub mod DrawnSoFar
pub mod HoldDraws
pub mod Ahead
