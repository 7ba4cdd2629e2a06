-- What a reader of the program `farey` must believe: which name is which job's, and what each job writes.
pub mod Jobs
