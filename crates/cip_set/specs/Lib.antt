pub mod SetLabels
