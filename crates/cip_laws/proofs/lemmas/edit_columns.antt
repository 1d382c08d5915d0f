pub mod ColumnsStay
