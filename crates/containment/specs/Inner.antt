-- What the functions of the crate `containment` promise each other. A reader who trusts the checker need not read it.
pub mod Following
