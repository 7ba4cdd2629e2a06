-- What a reader of the crate `congruence_decision` must believe, in reading order: units; the equations; the maps that
-- they are about; the theorems.
pub mod Units
pub mod Equations
pub mod Maps
pub mod Theorems
