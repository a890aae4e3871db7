mod WorkedHealing
mod WorkedJoin
mod WorkedSplit
