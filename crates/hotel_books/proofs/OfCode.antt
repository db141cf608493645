-- What the walks of lists need.
pub mod NoteFields
pub mod Walking
