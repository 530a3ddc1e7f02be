-- What a reader must believe of nodes: document 01, "Tables", pending words, tags, children and keys, as definitions. No laws stand here.
pub mod Pending
pub mod Node
pub mod Keys
