pub mod SlopeRows
