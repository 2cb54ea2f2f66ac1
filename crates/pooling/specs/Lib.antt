-- Two payloads of one shape pooled: which numbers they are refused by, and what they make of the two sets.
pub mod Pool
pub mod Words
