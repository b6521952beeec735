-- SPECIFICATION 3: the field, and the table by which its code multiplies.
pub mod Field
pub mod Table
