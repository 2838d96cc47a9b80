-- from a step or a release to an event
pub mod Events
