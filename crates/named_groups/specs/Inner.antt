-- What the functions of the crate `named_groups` promise each other. A reader who trusts the checker need not read it.
pub mod Ready
