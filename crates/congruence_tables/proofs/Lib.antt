-- Why the functions of the crate `congruence_tables` meet their contracts: the columns, the list that the work space holds, the walk over the cosets.
pub mod Column
pub mod Image
pub mod Level
pub mod Entries
pub mod Held
pub mod Walked
-- Why the functions of the module `residues` meet their contracts: the products with S and R; -c, d - c and signs; that entries tell cosets apart; the images
-- of entries.
pub mod Products
pub mod Signs
pub mod Rows
pub mod Keys
pub mod Images
