-- Why the listing's buffers always suffice; no second text; instances.
pub mod Pages
pub mod Instances
