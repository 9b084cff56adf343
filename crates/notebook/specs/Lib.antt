pub mod Notebook
