-- Why the functions of the crate `congruence_equations` meet their contracts: where the maps lead, and the equations at all places.
pub mod Landing
