-- What the functions of the crate `drawing` promise each other: what is asked of a side, and what a row or a loop
-- leaves. A reader who trusts the checker need not read it.
pub mod Ready
