-- What a reader of the crate `figures` must believe, in reading order: cusps, genus, level, all figures of tables; and
-- then what the functions ask of the work space and leave there.
pub mod Cusps
pub mod GenusOf
pub mod LevelOf
pub mod FiguresOf
-- That the genus is a number: the Riemann–Hurwitz formula, and the genus of tables of S and R.
pub mod RiemannHurwitz
pub mod Genus
pub mod Inner
